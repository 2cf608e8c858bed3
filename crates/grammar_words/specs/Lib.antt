-- What document 01 prints as a list or as a number, in its own words.
pub mod Characters
pub mod Codes
pub mod Values
pub mod Finer
