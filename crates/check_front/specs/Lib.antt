-- What the quick test of a B line's fields says.
pub mod Front
