pub mod Fronts
mod MissStreams
mod Stopped
