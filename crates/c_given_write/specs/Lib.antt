-- What is said of a line written by a layout that is given as its line.
pub mod Written
