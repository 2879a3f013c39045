pub mod Lits
pub mod Rows
pub mod Clauses
pub mod Meant
pub mod Store
