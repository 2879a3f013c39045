pub mod Tabled
pub mod Sections
pub mod Exact
