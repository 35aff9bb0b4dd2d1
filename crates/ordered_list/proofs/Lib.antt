pub mod Changing
pub mod Searching
pub mod Shifting
pub mod Told
