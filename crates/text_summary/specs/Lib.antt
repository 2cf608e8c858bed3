-- The line of a flight's summary, for people.
pub mod Outline
