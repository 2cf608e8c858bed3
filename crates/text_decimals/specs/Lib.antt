-- A time and a position as text.
pub mod Decimals
