-- What the contracts of the top call cite.
pub mod Arguments
pub mod Answers
pub mod Call
pub mod Serving
pub mod Live
pub mod Reaching
pub mod Promises
