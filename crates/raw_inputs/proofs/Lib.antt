pub mod Entries
pub mod Limits
pub mod Texts
pub mod SaidClaims
pub mod Inputs
