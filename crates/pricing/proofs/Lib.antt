pub mod Mapped
pub mod Ordered
pub mod Sums
