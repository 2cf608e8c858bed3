-- What the proofs share, and that each promise has one answer.
mod Laws
mod Only
