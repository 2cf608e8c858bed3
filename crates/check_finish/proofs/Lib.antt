pub mod Finishing
pub mod Only
