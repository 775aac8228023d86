pub mod Freeblock
pub mod Inner
pub mod Values
