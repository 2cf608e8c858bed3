-- The ways out of the calls, and that each promise has one answer.
pub mod Ends
pub mod Only
