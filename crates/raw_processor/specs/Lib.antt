pub mod Ends
pub mod Given
pub mod Port
pub mod Processor
pub mod Touching
pub mod Ways
