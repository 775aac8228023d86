pub mod Hit
pub mod Inner
