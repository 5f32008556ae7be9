pub mod Table
pub mod Instruction
pub mod Networks
pub mod Words
pub mod Made
pub mod Load
