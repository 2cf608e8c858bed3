-- The laws of this crate.
pub mod Telling
pub mod Filling
pub mod Fitting
pub mod Summing
pub mod Only
