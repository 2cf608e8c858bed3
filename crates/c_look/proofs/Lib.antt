-- That the look number by number is the look into the entries, and that each promise has one answer.
mod Same
pub mod Only
