-- How long the names and meanings are at most, and that each promise has one answer.
pub mod Words
pub mod Only
