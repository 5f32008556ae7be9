pub mod Holding
pub mod Answered
mod Taken
pub mod Promising
