pub mod Valid
pub mod OneText
