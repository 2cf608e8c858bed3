-- What the proofs of several readers use; and that each promise has one answer.
pub mod Laws
mod Only
