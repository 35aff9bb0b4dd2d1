pub mod Volumes
pub mod States
pub mod Forming
pub mod Laws
