-- What the contracts of this crate cite.
pub mod Kinds
pub mod Names
pub mod NameTable
pub mod Faults
pub mod Language
pub mod Emitted
pub mod Tokens
pub mod Section
pub mod Labels
pub mod Refusal
pub mod FirstLines
pub mod OneEach
pub mod Listing
