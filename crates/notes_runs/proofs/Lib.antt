-- Runs of notes.
pub mod Runs
pub mod Only
