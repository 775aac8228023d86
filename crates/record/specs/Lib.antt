pub mod Entry
pub mod Inner
pub mod Places
pub mod Value
pub mod Varint
