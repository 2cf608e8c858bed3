-- What is surely good of a line with columns.
pub mod Sure
