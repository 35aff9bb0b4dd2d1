pub mod Parted
pub mod Digits
