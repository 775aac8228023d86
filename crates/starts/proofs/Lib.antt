mod HighBytes
pub mod Laws
