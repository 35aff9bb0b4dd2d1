pub mod Belongs
pub mod Each
pub mod Filed
pub mod Overlaid
pub mod Packed
pub mod Passed
pub mod Undone
