pub mod Openings
pub mod Places
