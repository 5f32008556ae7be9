pub mod Ranges
pub mod Labels
pub mod Opening
pub mod Inside
pub mod Heads
pub mod Programs
