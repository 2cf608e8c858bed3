-- What a turn of the check and the check of a file's lines say, in the paper's terms.
pub mod Checks
pub mod Turns
