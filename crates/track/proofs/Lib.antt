-- The laws of this crate.
pub mod Storing
pub mod Planning
pub mod Stepping
pub mod Accepted
pub mod Tracking
pub mod Only
