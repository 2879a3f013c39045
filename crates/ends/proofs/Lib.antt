pub mod Ending
pub mod Filling
pub mod Prefixes
pub mod Values
