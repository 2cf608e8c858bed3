-- An entry of a shelf, read and put.
pub mod Entries
