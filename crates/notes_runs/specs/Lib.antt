-- A run of notes.
pub mod Runs
