-- Laws of a layout given as its line; and that each promise has one answer.
pub mod Layouts
mod Only
