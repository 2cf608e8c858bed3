-- What the proofs share, and what a caller asks; that a sheet has room in a block, and that sheets one after the other are the lines of all fixes; and that each promise has one answer.
pub mod Laws
pub mod Callers
pub mod Whole
pub mod Only
