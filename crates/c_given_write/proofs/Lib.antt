-- Laws of a line that is written by a layout given as its line; and that each promise has one answer.
pub mod Laws
mod Only
