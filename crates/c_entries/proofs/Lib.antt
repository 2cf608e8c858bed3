-- Laws that the proofs share, that the promise has one answer, the entries that numbers tell as a list, and that what is put is taken again.
pub mod Laws
pub mod Only
pub mod Taken
pub mod Back
