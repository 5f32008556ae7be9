-- The lemmas of this crate.
pub mod Begins
pub mod Rows
pub mod Dues
pub mod Made
pub mod Values
pub mod Turns
pub mod Placed
