mod Cases
mod Searching
pub mod Unique
