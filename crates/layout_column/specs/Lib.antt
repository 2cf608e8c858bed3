-- The promise of this crate that the rules do not name.
pub mod Parts
