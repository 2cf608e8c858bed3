-- The part of a file up to the end of its last G line, and the notes behind it.
pub mod Common
mod Noted
pub mod Accepted
pub mod Only
