pub mod Lengths
pub mod Spelling
pub mod Longest
pub mod Chained
pub mod Joining
pub mod Placing
