pub mod Given
pub mod Noted
pub mod Kernels
pub mod Lengths
