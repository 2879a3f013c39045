pub mod Turns
pub mod Entries
pub mod Held
pub mod RecordKinds
pub mod Exactness
pub mod Assembling
