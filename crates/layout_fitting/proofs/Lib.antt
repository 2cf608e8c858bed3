-- Laws that the proofs share, and that the promise has one answer.
pub mod Laws
pub mod Only
