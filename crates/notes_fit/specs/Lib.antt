-- The notes of two slices woven into one.
pub mod Weave
