pub mod Given
pub mod Step
