mod Judging
pub mod Pieces
pub mod Feeds
mod Reading
mod HeadLines
mod HeadPlaces
mod HeadReading
pub mod FedWords
