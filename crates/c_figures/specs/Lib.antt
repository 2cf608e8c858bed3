-- What the check says of a file, in numbers.
pub mod Figures
