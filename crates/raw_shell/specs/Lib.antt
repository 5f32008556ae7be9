-- What the contracts of the shell cite.
pub mod Seen
pub mod Answers
pub mod Arguments
pub mod Call
pub mod Gathering
pub mod Gathered
