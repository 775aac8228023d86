mod Headers
pub mod Laws
mod Low
mod Runs
