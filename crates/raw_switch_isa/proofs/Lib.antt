pub mod Words
pub mod EndWords
pub mod LeastEnd
pub mod Routed
pub mod Passing
