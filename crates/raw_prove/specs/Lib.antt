pub mod Units
pub mod Turns
pub mod Runs
pub mod Opened
pub mod RowRuns
