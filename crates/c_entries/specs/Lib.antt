-- The entries of a reading as a lent list of numbers.
pub mod Lent
