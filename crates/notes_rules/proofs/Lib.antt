-- The laws of notes.
pub mod Texts
pub mod Places
