mod Ends
mod Sides
mod Parts
mod Runs
pub mod Plain
mod Markup
