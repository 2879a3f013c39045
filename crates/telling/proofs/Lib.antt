pub mod Pages
pub mod Values
pub mod Unknowns
pub mod Reading
