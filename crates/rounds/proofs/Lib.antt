pub mod Turning
pub mod Settled
pub mod Answering
pub mod Going
