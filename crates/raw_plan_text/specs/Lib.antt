-- What the contracts of this crate cite.
pub mod Plans
pub mod Forms
pub mod Faults
pub mod Meaning
pub mod Texts
pub mod Answers
