pub mod Values
pub mod Trails
pub mod Steps
