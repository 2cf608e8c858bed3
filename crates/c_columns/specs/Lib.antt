-- What a call on the columns of a line answers, and on a layout.
pub mod Values
pub mod Calls
pub mod Rows
