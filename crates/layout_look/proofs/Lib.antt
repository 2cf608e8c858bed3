-- Laws that the proofs share, and looks worked out.
pub mod Laws
pub mod Worked
