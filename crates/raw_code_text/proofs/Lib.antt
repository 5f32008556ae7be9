pub mod HexDigits
pub mod Lengths
