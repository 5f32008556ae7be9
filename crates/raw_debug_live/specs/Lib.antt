-- What the contracts of this crate cite.
pub mod Bytes
pub mod Answering
pub mod Serving
pub mod Words
pub mod Promises
