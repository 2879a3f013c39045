pub mod Meant
pub mod Views
pub mod Taken
pub mod Shown
