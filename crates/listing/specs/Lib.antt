pub mod Inner
pub mod Input
pub mod Part
pub mod Text
