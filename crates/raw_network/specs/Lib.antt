pub mod Network
pub mod Runs
pub mod Wired
pub mod Waits
pub mod Laws
