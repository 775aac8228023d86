pub mod Cells
pub mod Inner
pub mod Values
