-- The notes of two slices, one after the other.
pub mod Reading
pub mod Turns
pub mod Only
