-- The words in which two files say the same.
pub mod Alike
