pub mod States
pub mod Rounds
pub mod Calls
pub mod Histories
pub mod Theorem
