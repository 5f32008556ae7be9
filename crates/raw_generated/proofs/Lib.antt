pub mod Adding
pub mod Grid
pub mod Numbers
pub mod Passing
pub mod Whole
