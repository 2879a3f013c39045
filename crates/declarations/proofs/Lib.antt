pub mod First
pub mod Walks
pub mod Declared
pub mod Tables
