pub mod Filling
pub mod Numbered
pub mod Defaults
