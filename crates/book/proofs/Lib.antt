pub mod Put
pub mod Room
pub mod Struck
pub mod Verdicts
pub mod Withdrawn
