pub mod Images
pub mod MadeSets
pub mod CheckedHistory
