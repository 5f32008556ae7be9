-- What the contracts of this crate cite.
pub mod Depth
pub mod Verdicts
