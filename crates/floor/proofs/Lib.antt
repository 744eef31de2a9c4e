pub mod Chains
pub mod Deciding
pub mod Neighbours
