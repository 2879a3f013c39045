pub mod Opening
pub mod Conflict
