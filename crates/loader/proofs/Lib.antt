pub mod Forcing
pub mod Modelling
pub mod PastDepths
