pub mod Cases
pub mod Decided
