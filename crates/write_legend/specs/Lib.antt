-- The layouts that a line can spell.
pub mod Spelling
