pub mod Partial
pub mod Reading
pub mod Within
pub mod Places
pub mod Models
pub mod Exact
