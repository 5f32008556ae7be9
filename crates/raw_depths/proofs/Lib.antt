pub mod Waits
pub mod Rests
pub mod Reports
pub mod Fastest
pub mod Adding
pub mod Counting
pub mod Verdicts
