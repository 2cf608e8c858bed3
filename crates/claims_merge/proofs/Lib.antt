-- What is demanded of the merge, and the laws below it.
pub mod Copies
pub mod Making
pub mod Turned
pub mod NotSame
pub mod Answers
pub mod NeverFull
pub mod Alike
pub mod Worked
pub mod Evening
