-- Laws that the proofs share; the fix of a line that is read by an allowed layout; and that each promise has one answer.
pub mod Laws
pub mod Read
pub mod Only
