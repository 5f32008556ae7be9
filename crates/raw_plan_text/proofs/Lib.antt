-- The lemmas of this crate.
pub mod Pairs
pub mod Twice
pub mod Insides
pub mod Steps
pub mod Whole
pub mod Valid
