pub mod EndLists
pub mod SwitchValues
pub mod Vias
pub mod PortEnds
mod Replacement
mod Standing
pub mod Counting
