pub mod Refusals
pub mod Changes
pub mod Places
pub mod Tables
pub mod Counts
pub mod Lists
