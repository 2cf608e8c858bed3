-- The part of a file up to the end of its last G line.
pub mod Common
