-- What the contracts of this crate cite.
pub mod Meaning
pub mod Texts
pub mod Seats
