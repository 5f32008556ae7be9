pub mod Indices
pub mod Given
