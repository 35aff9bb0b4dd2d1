pub mod Kept
pub mod Laws
