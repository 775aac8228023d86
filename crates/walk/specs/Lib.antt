pub mod Carve
pub mod Collect
pub mod Inner
pub mod Walk
