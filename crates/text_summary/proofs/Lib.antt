-- What the proofs share; lines worked out by hand; that a line has room; and that the promise has one answer.
mod Laws
mod Examples
pub mod Room
mod Only
