pub mod Values
pub mod Told
pub mod Trail
pub mod Swept
pub mod Solved
