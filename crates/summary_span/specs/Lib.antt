-- The outermost of some numbers, and what is told of some fixes.
pub mod Extremes
pub mod Sums
