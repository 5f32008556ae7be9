-- The lemmas of this crate.
pub mod Edges
pub mod Fronts
pub mod Naming
pub mod Standing
pub mod Next
pub mod Sound
pub mod Passing
pub mod Ending
pub mod Built
pub mod Second
