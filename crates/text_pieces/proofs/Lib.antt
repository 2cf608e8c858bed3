-- What the proofs share, what a caller asks, and that each promise has one answer.
pub mod Laws
pub mod Parts
pub mod Callers
pub mod Only
