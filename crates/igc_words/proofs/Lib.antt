-- Laws of texts that are the same; and that each promise has one answer.
mod Laws
mod Only
