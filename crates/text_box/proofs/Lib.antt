-- What the proofs share, and that a box has room.
mod Laws
pub mod Room
