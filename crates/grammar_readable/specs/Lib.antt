-- The words of what can be read without a table, and of a column that is read.
pub mod Untabled
pub mod Column
