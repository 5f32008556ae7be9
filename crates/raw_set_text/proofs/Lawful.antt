-- What lines mean keeps all that sets keep, and they have one answer.
pub mod Lists
pub mod Entries
pub mod Ports
pub mod Totals
pub mod Tiles
pub mod Sums
pub mod Wires
pub mod Set
pub mod Forms
pub mod Stages
pub mod Lines
pub mod Answers
