-- The theorems on the declaration of a file, and what they are made of.
pub mod Finding
pub mod Answers
pub mod Alike
pub mod Declaration
