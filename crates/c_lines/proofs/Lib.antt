-- Laws of a position in degrees; and that each promise has one answer.
mod Laws
mod Only
