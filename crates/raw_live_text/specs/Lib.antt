-- What the contracts of this crate cite.
pub mod Kinds
pub mod Puts
pub mod Feeding
pub mod Heads
