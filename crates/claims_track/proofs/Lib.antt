-- What is demanded of a track, and the laws below it.
pub mod Days
pub mod Records
pub mod Ordering
pub mod Ways
pub mod Answers
pub mod Whole
pub mod Worked
pub mod Track
