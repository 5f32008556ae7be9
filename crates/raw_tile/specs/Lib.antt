pub mod Given
pub mod Access
pub mod Step
pub mod Zeros
