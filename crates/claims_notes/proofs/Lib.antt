-- Notes tell nothing and change nothing, and the laws below it.
pub mod Walks
pub mod Tracks
pub mod Summaries
pub mod Worked
pub mod Notes
