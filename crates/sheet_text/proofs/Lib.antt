pub mod Counted
pub mod Entering
pub mod Parting
pub mod Passing
