-- Laws of a line that is written; and that each promise has one answer.
mod Laws
mod Only
