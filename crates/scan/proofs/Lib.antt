mod Answers
mod Cases
mod Checks
pub mod Demand3
pub mod Fuel
pub mod Laws
pub mod Leaving
pub mod OneAttempt
pub mod ReadBack
mod Running
mod RunValues
pub mod SameRun
pub mod Unique
