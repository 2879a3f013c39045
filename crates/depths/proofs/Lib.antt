pub mod Finding
pub mod Leasts
pub mod Obeying
pub mod Lawfulness
pub mod Rounds
pub mod Entries
pub mod Filling
