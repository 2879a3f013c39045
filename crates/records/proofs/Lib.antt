pub mod Passed
pub mod Sound
pub mod Runs
pub mod Nexts
pub mod Results
