-- The words of what is demanded of the declaration of a file.
pub mod Demanded
