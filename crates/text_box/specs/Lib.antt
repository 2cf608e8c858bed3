-- The box of a flight, for people.
pub mod Boxed
