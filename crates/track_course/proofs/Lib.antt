-- The ways out of a plan, and that each promise has one answer.
pub mod Planned
pub mod Only
