-- The notes of two slices put one after the other.
pub mod Loom
