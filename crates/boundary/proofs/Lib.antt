pub mod Verdicts
pub mod Replays
