mod Cases
pub mod Readings
