pub mod Piles
pub mod Checking
