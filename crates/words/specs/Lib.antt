pub mod Inner
pub mod Runs
pub mod Words
