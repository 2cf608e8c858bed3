-- What is said of a line with the layout given as the text of its line.
pub mod Given
