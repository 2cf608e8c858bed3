-- What is claimed of a summary is one page: proofs/Summary.antt. The other files show it.
pub mod Numbers
pub mod Answers
pub mod Growing
pub mod Fresh
pub mod Summary
pub mod Worked
