mod Cases
mod Chaining
pub mod Gaps
pub mod ReadBack
mod Regions
