-- Two files merged.
pub mod Merge
