-- What the proofs share, that the promise has one answer, and that the text shown is the one that was judged.
pub mod Places
pub mod Only
pub mod Judged
