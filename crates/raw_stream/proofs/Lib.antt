pub mod Lists
pub mod Sums
pub mod Places
pub mod Within
pub mod Taken
pub mod Unrolled
mod Examples
