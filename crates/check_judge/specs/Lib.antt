-- The promise of a line judged.
pub mod Lines
