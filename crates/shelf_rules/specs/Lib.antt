-- The shelf of flights: its table of contents, what each call says of it and leaves, and what packing leaves.
pub mod Ranges
pub mod Contents
pub mod Shelf
pub mod Packing
pub mod Moves
pub mod Calls
