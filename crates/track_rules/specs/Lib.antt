-- The track of a file, and the records that steps find.
pub mod Track
pub mod Stored
