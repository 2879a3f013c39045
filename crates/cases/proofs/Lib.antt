pub mod Counting
pub mod Offsets
pub mod Rows
pub mod Alike
pub mod Children
