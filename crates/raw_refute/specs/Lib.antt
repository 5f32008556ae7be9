-- What the contracts of this crate cite.
pub mod Judged
pub mod Answers
pub mod RowJudged
pub mod RowAnswers
pub mod RowStanding
