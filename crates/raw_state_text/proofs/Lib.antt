mod Examples
pub mod MarkTexts
pub mod Sections
mod Waiting
