pub mod Run
pub mod Turns
pub mod Steps
pub mod Going
pub mod Lent
