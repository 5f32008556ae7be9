pub mod Parts
pub mod Limits
pub mod Steps
pub mod Straight
pub mod Standing
pub mod Laws
pub mod Rows
pub mod Lawful
