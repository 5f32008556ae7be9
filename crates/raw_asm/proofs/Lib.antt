pub mod FirstPlaces
pub mod FirstNames
pub mod LabelPlaces
pub mod AllLines
pub mod FirstLines
pub mod OneEach
pub mod Answers
