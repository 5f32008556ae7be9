-- What the contracts of this crate cite.
pub mod Lines
pub mod Locals
pub mod Report
pub mod History
