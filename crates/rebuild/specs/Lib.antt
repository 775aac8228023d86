pub mod Header
pub mod Inner
pub mod Ways
