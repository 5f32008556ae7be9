-- What the contracts of this crate cite.
pub mod Taking
pub mod Checking
pub mod Weaving
pub mod Left
