-- A line passed in the check of a file, and what a line that was judged comes to.
pub mod Turns
pub mod Entering
