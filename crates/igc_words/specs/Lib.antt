-- The words of the program igc.
pub mod Words
pub mod Deeds
