pub mod Terms
pub mod Typing
pub mod Values
pub mod Least
pub mod Problems
pub mod Faults
pub mod Tables
