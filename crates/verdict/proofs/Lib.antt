pub mod Results
pub mod Bodies
pub mod Deep
pub mod Exact
pub mod Checks
pub mod Looks
pub mod Examining
pub mod Accepting
