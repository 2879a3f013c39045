pub mod Refusals
pub mod Lines
pub mod Pages
pub mod Told
pub mod Shown
pub mod Standing
