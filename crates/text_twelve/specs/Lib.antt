-- The twelve numbers of a summary.
pub mod Twelve
