-- Laws that the proofs share, and that each promise has one answer.
pub mod Laws
pub mod Turns
pub mod Only
