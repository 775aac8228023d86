pub mod Inner
pub mod Search
