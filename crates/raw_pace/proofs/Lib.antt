pub mod Deeper
pub mod Fuller
pub mod Path
pub mod Sparing
pub mod Control
pub mod Waiting
