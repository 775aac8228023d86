pub mod Bodies
pub mod Cases
pub mod Laws
pub mod Numbers
pub mod Shifts
pub mod Shortest
pub mod Types
pub mod Unique
mod Values
mod Varints
pub mod Widths
