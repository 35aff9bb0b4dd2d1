pub mod LineFacts
pub mod Limited
pub mod Stands
