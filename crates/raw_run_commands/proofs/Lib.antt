mod CheckLines
mod Outputs
mod Summing
