-- The lemmas of this crate.
pub mod Seating
pub mod Claims
