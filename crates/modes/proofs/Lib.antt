pub mod Bodies
pub mod Carving
mod Cases
pub mod Entries
pub mod Fuel
pub mod Marks
pub mod ReadBack
pub mod Reading
mod Running
pub mod Trying
pub mod Unique
pub mod Writing
