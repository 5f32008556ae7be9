pub mod Table
pub mod Instruction
pub mod Code
pub mod Ends
pub mod Made
