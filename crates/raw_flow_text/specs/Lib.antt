-- What the contracts of this crate cite.
pub mod Statement
pub mod Forms
pub mod Flows
pub mod Faults
pub mod Causes
pub mod Meaning
pub mod Texts
pub mod Building
