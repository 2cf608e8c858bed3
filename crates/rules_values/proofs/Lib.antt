-- What the proofs share, and laws for those above.
pub mod Laws
pub mod Only
pub mod Presence
