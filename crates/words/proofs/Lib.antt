pub mod Held
pub mod Blocks
pub mod Laws
pub mod Unique
