-- Lists in order, and how such lists are made.
pub mod Sorted
pub mod Ways
