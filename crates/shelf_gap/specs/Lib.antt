-- Where a body fits.
pub mod Runs
