pub mod Explanations
pub mod Standing
