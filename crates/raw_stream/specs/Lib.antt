pub mod Streams
pub mod Unrolled
pub mod Kept
