pub mod Cases
pub mod Keys
pub mod Kinds
pub mod Prices
pub mod Figures
pub mod Entries
pub mod Changes
pub mod Worked
