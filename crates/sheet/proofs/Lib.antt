pub mod Carving
pub mod Filling
pub mod Laws
pub mod Percent
pub mod ReadBack
pub mod Sheets
pub mod Shares
pub mod Unique
