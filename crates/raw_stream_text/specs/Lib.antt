-- What the contracts of this crate cite.
pub mod Edges
pub mod Seated
pub mod Statement
pub mod Forms
pub mod Streams
pub mod Faults
pub mod Meaning
pub mod Texts
pub mod Building
