-- What the proofs share, that an explanation has room, and that each promise has one answer.
pub mod Pieces
pub mod Room
pub mod Only
