pub mod Joining
mod Judging
pub mod Laws
