-- What the contracts of this crate cite.
pub mod Parts
pub mod Firing
pub mod Standing
pub mod Lines
pub mod Text
pub mod Reading
pub mod Whole
pub mod Laws
pub mod Bytes
