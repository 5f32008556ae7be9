-- What the contracts of live ports cite.
pub mod Items
pub mod Written
pub mod Engine
pub mod Ending
pub mod Due
pub mod Running
pub mod Meeting
pub mod Gots
pub mod Judging
pub mod Lives
pub mod Joining
