-- What a line taken by numbers says, and a run of lines that are surely good.
pub mod Paces
pub mod Runs
pub mod Strides
