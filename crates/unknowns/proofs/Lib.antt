pub mod Limits
pub mod Rows
pub mod Beginning
pub mod Openings
