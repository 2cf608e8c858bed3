-- What the call on a fix answers.
pub mod Calls
