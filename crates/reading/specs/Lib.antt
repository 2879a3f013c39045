pub mod Reading
pub mod Verdicts
pub mod Examples
