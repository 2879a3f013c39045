pub mod Lying
pub mod Implied
