-- Laws of an answer and of what stands beside it; and that each promise has one answer.
pub mod Laws
pub mod Only
