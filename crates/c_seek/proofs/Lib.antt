-- One turn of each loop, and that the promise has one answer.
mod Turns
pub mod Only
