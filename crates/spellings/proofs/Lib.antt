pub mod Chains
pub mod Leaves
pub mod Names
