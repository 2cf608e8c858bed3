-- Texts byte by byte.
pub mod Letters
pub mod Only
