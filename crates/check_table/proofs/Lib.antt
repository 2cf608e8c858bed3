pub mod Counts
pub mod Turns
pub mod Entering
pub mod Only
