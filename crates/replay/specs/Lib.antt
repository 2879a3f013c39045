pub mod Numbers
pub mod Replays
