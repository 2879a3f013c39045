pub mod Decided
pub mod Adding
