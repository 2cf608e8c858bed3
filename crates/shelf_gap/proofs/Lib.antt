-- That the promise has one answer.
pub mod Only
