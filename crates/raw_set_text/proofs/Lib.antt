-- The lemmas of this crate.
pub mod Places
pub mod Wired
pub mod Reading
pub mod Building
pub mod Lawful
pub mod Listed
