-- The laws of this crate.
pub mod Starting
pub mod Pointing
pub mod Telling
pub mod Only
