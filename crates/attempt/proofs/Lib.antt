pub mod Agreeing
mod Bodies
pub mod Fuel
pub mod Judging
pub mod Laws
pub mod Marks
pub mod ReadBack
pub mod Shifts
pub mod Skipping
pub mod Types
pub mod Unique
mod Writing
