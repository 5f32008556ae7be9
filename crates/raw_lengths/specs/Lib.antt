pub mod Noting
pub mod Looks
pub mod Proofs
