pub mod Tasks
pub mod Stacks
