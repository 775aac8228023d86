mod Blocks
pub mod Cases
mod Chaining
pub mod Fuel
pub mod ReadBack
mod Starting
