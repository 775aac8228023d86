pub mod Door
pub mod Returns
pub mod Version
