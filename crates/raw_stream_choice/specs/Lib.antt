pub mod StreamSets
pub mod PortNumbers
pub mod Standing
pub mod Choice
pub mod Endless
