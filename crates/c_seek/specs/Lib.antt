-- The look number by number, and its promise.
pub mod Parts
