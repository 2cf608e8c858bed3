-- What is told of one fix.
pub mod Spots
