-- The proofs that something has one answer.
pub mod Places
pub mod Texts
pub mod Made
