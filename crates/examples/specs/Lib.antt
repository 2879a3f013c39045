pub mod Sessions
pub mod Worked
