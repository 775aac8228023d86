pub mod Demand3
pub mod GapRows
pub mod OnlyList
pub mod Resuming
mod Returning
pub mod Switch
pub mod Unique
