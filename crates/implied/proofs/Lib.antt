pub mod Literals
pub mod Pools
pub mod Rows
