pub mod GapSheet
pub mod Parts
