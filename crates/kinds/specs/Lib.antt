-- The kinds of a file's lines, and the letters that they are made from.
pub mod Kinds
pub mod Letters
