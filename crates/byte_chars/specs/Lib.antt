-- What the table of the characters says.
pub mod Characters
