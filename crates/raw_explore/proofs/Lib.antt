mod Mid
mod Telling
mod Texts
mod Resting
mod Fired
mod Untouched
mod StateLines
