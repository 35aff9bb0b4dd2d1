pub mod Refusals
pub mod Changed
pub mod Counts
pub mod Steps
pub mod Laws
