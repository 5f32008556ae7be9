-- What the contracts of this crate cite.
pub mod Marked
pub mod Forms
pub mod Placing
pub mod Lines
pub mod Meaning
pub mod Texts
pub mod Building
