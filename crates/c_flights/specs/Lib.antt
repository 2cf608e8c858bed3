-- What the calls on whole files answer.
pub mod Declarations
pub mod Grids
pub mod Lettered
pub mod Merging
pub mod Shelves
pub mod Summaries
pub mod Tracks
