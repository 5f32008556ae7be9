pub mod Mine
pub mod Steady
mod Lacking
mod Watch
mod Moving
mod Looking
mod Pairing
mod Turning
pub mod Rows
mod Asking
mod PortRows
mod TileRows
mod Within
mod Ready
mod SwitchEnds
mod SwitchRows
