pub mod Unique
pub mod Whole
