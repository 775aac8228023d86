mod Cases
mod Columns
pub mod Counting
pub mod Exchange
mod Learning
pub mod Promises
mod Tallying
pub mod Unique
