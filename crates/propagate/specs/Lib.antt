pub mod Uses
pub mod Visits
