-- What a call on a line that has no layout answers, and on a position.
pub mod Values
pub mod Calls
pub mod Headers
