pub mod Faults
pub mod Shown
pub mod Force
pub mod Beginning
pub mod Limits
pub mod Searching
pub mod Modelling
