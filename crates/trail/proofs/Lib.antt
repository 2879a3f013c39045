pub mod Values
pub mod Sounds
