pub mod Longest
pub mod Pages
pub mod SettledPrices
pub mod AnyCase
pub mod Refused
