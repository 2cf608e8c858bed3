-- The promise of this crate.
pub mod Plans
