mod Twins
mod Lawful
mod Words
mod Sinks
mod Placed
mod EndlessPorts
mod MetRows
