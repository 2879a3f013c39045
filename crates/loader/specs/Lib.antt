pub mod Requests
pub mod Sessions
pub mod Depths
pub mod Searching
