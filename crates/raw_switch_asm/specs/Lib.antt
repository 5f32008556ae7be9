-- What the contracts of this crate cite.
pub mod Letters
pub mod Operand
pub mod Route
pub mod Statement
pub mod Language
pub mod Listing
pub mod ReadBack
pub mod Lawful
