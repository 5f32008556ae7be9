-- What the contracts of this crate cite.
pub mod Text
pub mod LiveText
