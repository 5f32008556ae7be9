-- What the contracts of this crate cite.
pub mod Kinds
pub mod Entry
pub mod Forms
pub mod Entries
pub mod Faults
pub mod Sections
pub mod Meaning
pub mod Answers
pub mod Building
pub mod Listing
pub mod Reading
pub mod Memory
pub mod Tiling
pub mod Texts
pub mod Worked
