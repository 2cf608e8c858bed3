pub mod Counting
pub mod Only
