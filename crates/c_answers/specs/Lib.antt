-- What an answer's numbers are.
pub mod Answers
