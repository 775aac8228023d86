mod Cases
pub mod From
pub mod Laws
pub mod Marks
pub mod Modes
mod Reading
pub mod Unique
