-- Laws of what stands beside an answer; and that each promise has one answer.
mod Laws
mod Only
