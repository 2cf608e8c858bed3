-- What the proofs share, and how much room a time and a position take.
pub mod Laws
pub mod Room
