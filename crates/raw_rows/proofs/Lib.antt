pub mod Frames
pub mod Inputs
pub mod Locals
pub mod Noted
pub mod Along
pub mod Ports
pub mod Opening
pub mod Led
pub mod Kernels
pub mod Counters
pub mod Feeding
pub mod Beginning
pub mod Ended
pub mod Halting
pub mod Live
pub mod Lengths
mod Examples
