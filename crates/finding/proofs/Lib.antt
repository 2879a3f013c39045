pub mod InTurn
pub mod ByCases
