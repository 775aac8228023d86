pub mod Inner
pub mod Page
