mod Scripts
mod Refusing
mod Statuses
mod Ending
mod Causing
mod Handing
mod LiveWords
