-- Two slices of notes woven into one.
pub mod Sizes
pub mod Answer
pub mod Only
