pub mod Swept
pub mod Rounds
pub mod Kept
pub mod Ways
