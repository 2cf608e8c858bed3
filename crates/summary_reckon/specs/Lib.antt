-- The summary of a flight, and the promise of this crate.
pub mod Summary
pub mod Filled
pub mod Reckoned
