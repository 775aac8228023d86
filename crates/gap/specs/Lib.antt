pub mod Gap
pub mod Inner
pub mod Values
