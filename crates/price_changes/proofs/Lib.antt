pub mod Apart
pub mod Overlay
pub mod Picked
pub mod Counted
pub mod Stepped
