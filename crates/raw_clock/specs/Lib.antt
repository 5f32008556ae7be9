-- What the contracts of this crate cite.
pub mod Clock
pub mod Laws
pub mod Values
pub mod Engine
pub mod Tally
pub mod Account
pub mod Counted
