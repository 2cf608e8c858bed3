-- Laws of what stands beside an answer; and that the promise has one answer.
mod Laws
mod Only
