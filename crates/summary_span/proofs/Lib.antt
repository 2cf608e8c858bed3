-- The laws of this crate.
pub mod Links
pub mod Outmost
pub mod Joining
pub mod Only
