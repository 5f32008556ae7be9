-- What the contracts of this crate cite.
pub mod Pace
pub mod Path
pub mod Control
