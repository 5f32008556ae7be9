-- The lemmas of this crate.
pub mod Lines
pub mod Adding
pub mod Reading
pub mod Ports
pub mod Behind
