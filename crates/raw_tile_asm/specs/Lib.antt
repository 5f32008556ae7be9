-- What the contracts of this crate cite.
pub mod Operand
pub mod Form
pub mod Statement
pub mod Language
pub mod Listing
pub mod ReadBack
pub mod Lawful
