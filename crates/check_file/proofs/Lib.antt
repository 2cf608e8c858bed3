-- A turn of the check, the turns one after the other, and what the check says of a whole file; and that a turn has one answer.
mod Taking
pub mod Turns
pub mod Checks
mod Only
