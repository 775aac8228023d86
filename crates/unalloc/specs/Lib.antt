pub mod Inner
pub mod Learned
pub mod Values
