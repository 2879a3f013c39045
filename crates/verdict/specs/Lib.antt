pub mod Verdict
pub mod Exact
pub mod Examined
pub mod ByTables
