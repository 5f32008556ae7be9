pub mod Call
pub mod Ended
pub mod Served
pub mod Causes
pub mod Promises
pub mod Program
