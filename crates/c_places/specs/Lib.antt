-- What a call on where a line stands answers.
pub mod Calls
