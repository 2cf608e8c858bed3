-- Whether entries can be a line's.
pub mod Fitting
