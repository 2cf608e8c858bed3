-- The theorems on the kinds of a file's lines, and what they are made of.
pub mod Each
pub mod Answers
pub mod Kept
pub mod LineKinds
