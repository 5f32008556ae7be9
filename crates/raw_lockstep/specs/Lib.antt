-- What the contracts of this crate cite.
pub mod Lockstep
pub mod Stalls
