-- The parts of a line that a function of its own fills.
pub mod Parts
