-- The promise of a position's sign.
pub mod Signs
