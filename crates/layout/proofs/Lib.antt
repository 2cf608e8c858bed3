-- Laws of the definitions that the proofs share, what holds of the presence word, and that each promise has one answer.
pub mod Laws
pub mod Turns
pub mod Words
pub mod Common
pub mod Counted
pub mod Only
