pub mod Entries
pub mod Order
pub mod Finding
pub mod Listings
