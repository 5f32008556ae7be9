pub mod Fronts
pub mod Growth
mod HandedOn
mod AtRest
mod GotLines
mod DueWords
pub mod Valid
pub mod Joins
mod Living
mod Smalls
mod Places
