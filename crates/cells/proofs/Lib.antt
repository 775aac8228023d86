pub mod Along
mod Cases
pub mod Fuel
pub mod Guesses
mod Looking
pub mod ReadBack
pub mod Rebuilding
mod Skipping
mod Starting
