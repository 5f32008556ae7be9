mod Operands
pub mod Stored
mod Zeros
pub mod Touched
