-- What the proofs share, how long a quoted line is, and that each promise has one answer.
pub mod Pieces
pub mod Room
pub mod Only
