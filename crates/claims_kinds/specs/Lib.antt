-- The words of what is demanded of the kinds of a file's lines.
pub mod Noted
