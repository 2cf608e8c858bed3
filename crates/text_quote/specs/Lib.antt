-- A line quoted, with the caret under a byte of it.
pub mod Quote
