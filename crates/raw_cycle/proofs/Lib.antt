pub mod Walks
pub mod Rounds
pub mod Ends
pub mod Smallest
pub mod Reported
mod Examples
