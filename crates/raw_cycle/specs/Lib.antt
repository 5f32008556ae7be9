pub mod Least
pub mod Chains
pub mod Cycles
