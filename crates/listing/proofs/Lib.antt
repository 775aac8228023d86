mod Cases
pub mod Laws
mod Parts
mod Texts
pub mod Unique
