pub mod Raw
pub mod Reading
pub mod Examples
pub mod Next
pub mod Readers
pub mod Handed
