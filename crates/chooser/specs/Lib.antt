pub mod Ways
pub mod Faults
pub mod Meaning
pub mod Steps
pub mod Made
pub mod Claims
