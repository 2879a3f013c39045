pub mod Decisions
pub mod Texts
pub mod Views
pub mod Means
pub mod Outcomes
