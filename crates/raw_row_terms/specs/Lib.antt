pub mod RowTerms
pub mod RowClaims
pub mod WordRuns
pub mod OutTerms
pub mod Seated
pub mod Right
