-- What the contracts of this crate cite.
pub mod Known
pub mod Values
pub mod Compiled
