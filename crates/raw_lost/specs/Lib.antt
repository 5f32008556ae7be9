-- What the contracts of this crate cite.
pub mod Lost
pub mod Known
pub mod Text
