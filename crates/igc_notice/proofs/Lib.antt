-- Pieces by their case; what a caller asks of a notice; and that each promise has one answer.
mod Laws
pub mod Callers
mod Only
