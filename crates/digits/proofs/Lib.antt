mod Cases
mod Decimals
pub mod Laws
