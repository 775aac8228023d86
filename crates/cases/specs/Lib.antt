pub mod Layout
pub mod Lent
