-- What the contracts of this crate cite.
pub mod Commands
pub mod Walking
pub mod Sending
pub mod Stops
pub mod Answers
pub mod Script
pub mod Live
pub mod Debugging
