-- What added columns leave of the track and of the summary of a file, and the laws below it.
pub mod Walks
pub mod Records
pub mod Answers
pub mod Worked
pub mod Steady
