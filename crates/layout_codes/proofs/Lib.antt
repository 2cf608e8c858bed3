-- Laws that the proofs share, and that each promise has one answer.
pub mod Laws
pub mod Rows
pub mod Only
