pub mod Values
pub mod Looks
pub mod Trails
pub mod Backs
pub mod Passes
pub mod Turns
