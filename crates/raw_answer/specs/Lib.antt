-- What the contracts of this crate cite, and those of the crates that read texts.
pub mod OneAnswer
pub mod Places
pub mod Texts
pub mod Made
