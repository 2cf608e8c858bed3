-- The laws of lists in order.
pub mod Sorting
pub mod Pairs
pub mod Streams
