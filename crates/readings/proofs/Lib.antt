mod StatementLaws
pub mod Unique
