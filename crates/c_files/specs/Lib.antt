-- What the check of a file answers.
pub mod Calls
