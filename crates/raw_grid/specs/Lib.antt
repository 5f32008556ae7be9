pub mod Ends
pub mod Names
pub mod Topology
pub mod Wires
pub mod Stored
