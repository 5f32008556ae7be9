pub mod Flows
pub mod Places
pub mod Ports
pub mod Compiled
pub mod Right
pub mod Given
