pub mod AsRust
mod Cases
pub mod Unique
