pub mod Entries
pub mod Lawfulness
pub mod Standing
pub mod Views
pub mod Taking
