pub mod Sets
pub mod Limits
pub mod Texts
pub mod Holding
pub mod Agreeing
pub mod Keeping
