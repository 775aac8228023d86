pub mod Along
mod Calls
mod Cases
mod Collecting
pub mod Fuel
pub mod Laws
pub mod Leaves
mod Popping
mod Pushing
mod Summing
pub mod Tables
pub mod Unique
