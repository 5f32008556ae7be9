-- What the contracts of this crate cite.
pub mod Sections
pub mod Reading
pub mod Places
pub mod Lines
pub mod Laws
pub mod Placing
pub mod LabelsOf
