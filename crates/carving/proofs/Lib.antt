pub mod Callers
pub mod Cases
pub mod ReadBack
pub mod Unique
