pub mod Encoding
pub mod Signed
pub mod Bits
pub mod WordLimits
pub mod Loading
