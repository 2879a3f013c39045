pub mod Explanations
pub mod Links
pub mod Reading
pub mod Standing
pub mod Growing
