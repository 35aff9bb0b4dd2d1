pub mod Digits
pub mod Kept
pub mod Products
pub mod Quotients
pub mod Rounds
