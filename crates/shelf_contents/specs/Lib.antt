-- What is asked of a table of contents.
pub mod Questions
