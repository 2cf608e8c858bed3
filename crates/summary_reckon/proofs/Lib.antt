-- The laws of this crate.
pub mod Turning
pub mod Reckoning
pub mod Only
