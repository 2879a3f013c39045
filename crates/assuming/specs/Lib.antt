pub mod Assumes
pub mod Written
pub mod Denied
