mod Callers
mod Cases
pub mod ReadBack
pub mod Unique
