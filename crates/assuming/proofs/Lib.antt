pub mod Written
pub mod Asked
pub mod Denied
pub mod Assumes
