pub mod Step
pub mod Feed
pub mod Read
pub mod Shown
pub mod Spelled
