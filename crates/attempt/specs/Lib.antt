pub mod Attempt
pub mod Hints
pub mod Inner
pub mod Moved
pub mod Places
pub mod Values
