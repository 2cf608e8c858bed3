-- What a call that writes a line takes and answers.
pub mod Values
pub mod Calls
