pub mod Judging
pub mod Only
