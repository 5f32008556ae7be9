pub mod Lists
mod Places
mod Next
mod Changes
mod Firings
mod States
pub mod Told
mod Wires
pub mod Turns
pub mod Pieces
pub mod Whole
mod Plain
mod PlainSources
mod Examples
