pub mod Owned
pub mod Wired
pub mod Orders
pub mod Counts
pub mod Rows
pub mod Once
pub mod Finite
pub mod Words
pub mod TileRows
pub mod SwitchRows
pub mod Fitting
pub mod Starting
pub mod Queues
pub mod Waiting
pub mod Awaited
pub mod Resting
pub mod Sweeping
pub mod Joining
pub mod Alike
pub mod MoreWords
pub mod OneMore
pub mod Fed
pub mod Needed
pub mod Given
pub mod Exactly
mod Examples
mod LawExamples
pub mod EndTests
