pub mod Faults
pub mod Statuses
pub mod Answering
pub mod Loading
pub mod Replaying
pub mod Texts
