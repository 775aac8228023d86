pub mod Digits
pub mod Inner
