pub mod Places
pub mod Rows
pub mod Packed
pub mod Laws
