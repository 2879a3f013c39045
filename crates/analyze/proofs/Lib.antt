pub mod Draws
pub mod Jumps
