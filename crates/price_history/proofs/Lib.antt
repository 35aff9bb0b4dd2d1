pub mod Tallies
pub mod Keyed
pub mod Gathering
pub mod Meaning
pub mod Apart
pub mod Older
