pub mod Kinds
pub mod Fields
pub mod Switch
pub mod Reading
pub mod Image
pub mod Answers
