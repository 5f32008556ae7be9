-- What the contracts of this crate cite.
pub mod Flaws
pub mod Beginning
