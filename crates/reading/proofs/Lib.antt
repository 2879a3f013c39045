pub mod Complete
pub mod Sound
pub mod Early
pub mod Verdicts
