-- A date as text.
pub mod Dates
