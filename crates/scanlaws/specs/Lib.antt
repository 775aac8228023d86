pub mod Joined
pub mod Listed
pub mod Only
