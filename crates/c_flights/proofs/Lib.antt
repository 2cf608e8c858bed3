-- The calls on whole files: what is told of each; and that each promise has one answer.
pub mod Laws
pub mod Only
