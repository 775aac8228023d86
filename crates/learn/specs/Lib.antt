pub mod Inner
pub mod Learn
pub mod Types
