pub mod Models
pub mod Walks
pub mod Replays
