mod Attempting
mod Cases
pub mod Fuel
pub mod Marks
pub mod Matching
pub mod ReadBack
mod Reading
mod Running
pub mod Unique
