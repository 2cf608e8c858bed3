-- Two files merged; what a merge that was not refused says; and that the promise has one answer.
pub mod Merging
pub mod Whole
pub mod Only
