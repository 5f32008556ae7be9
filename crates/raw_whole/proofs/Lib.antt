pub mod Lists
mod Kept
pub mod Stepped
