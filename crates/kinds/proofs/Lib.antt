-- The laws of this crate.
pub mod Marking
pub mod Putting
pub mod Telling
pub mod Only
