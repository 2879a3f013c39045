pub mod Depth
pub mod Rounds
pub mod Histories
pub mod Theorem
pub mod Said
