pub mod Cuts
pub mod Phases
