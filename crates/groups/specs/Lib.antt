pub mod Judging
pub mod Rows
