-- The lemmas of this crate.
pub mod OutLine
pub mod Causes
pub mod Next
pub mod Sound
pub mod Standing
pub mod Ending
pub mod Passing
