-- What is said of a line by a layout that is known to be allowed.
pub mod Known
