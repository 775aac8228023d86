pub mod Inner
pub mod Once
pub mod Scan
pub mod Sheet
