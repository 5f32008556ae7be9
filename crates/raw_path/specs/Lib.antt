-- What the contracts of this crate cite.
pub mod Path
pub mod Known
pub mod Text
pub mod Laws
