-- A text byte by byte.
pub mod Letters
