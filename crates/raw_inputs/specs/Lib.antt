pub mod Flaws
pub mod Claimed
pub mod Inputs
