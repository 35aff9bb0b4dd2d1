pub mod Slots
pub mod Keys
pub mod Views
pub mod Empty
pub mod Means
pub mod Laws
