-- What the contracts of this crate cite.
pub mod Lines
pub mod Tokens
pub mod Cutting
pub mod Text
pub mod Number
