pub mod Turns
pub mod Values
pub mod Made
pub mod Two
pub mod Others
pub mod Possible
pub mod Worked
