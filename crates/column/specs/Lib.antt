pub mod Column
pub mod Inner
