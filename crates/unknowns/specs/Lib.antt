pub mod Force
pub mod Listing
pub mod Opening
