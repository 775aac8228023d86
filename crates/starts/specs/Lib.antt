pub mod Inner
pub mod Starts
