pub mod Starts
pub mod Sought
pub mod Shallow
pub mod Searches
pub mod Handing
