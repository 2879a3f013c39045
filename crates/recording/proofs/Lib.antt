pub mod Clauses
pub mod Openings
pub mod Conflicts
