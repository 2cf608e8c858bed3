-- The text of the line that a refusal names.
pub mod Faulty
