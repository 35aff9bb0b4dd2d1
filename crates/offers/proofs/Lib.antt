pub mod Chains
pub mod Outermost
