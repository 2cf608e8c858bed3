-- What the proofs share.
pub mod Entries
