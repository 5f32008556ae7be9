pub mod Cuts
pub mod Kept
pub mod Parts
pub mod Seeing
pub mod Live
