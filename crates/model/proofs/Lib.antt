pub mod Ends
pub mod Roots
pub mod Starts
pub mod Bytes
pub mod Exactness
