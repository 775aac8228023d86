pub mod Found
pub mod Inner
pub mod Modes
pub mod Values
