-- How the lines of a text are read.
pub mod Numbers
pub mod Steps
pub mod Heads
pub mod Lines
pub mod Sections
