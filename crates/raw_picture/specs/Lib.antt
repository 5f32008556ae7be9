-- What the contracts of this crate cite.
pub mod Places
pub mod Forms
pub mod Names
pub mod Told
pub mod Style
pub mod Frame
pub mod Opening
pub mod Legend
pub mod Ground
pub mod Boxes
pub mod Flows
pub mod Picture
pub mod Plain
pub mod Markup
