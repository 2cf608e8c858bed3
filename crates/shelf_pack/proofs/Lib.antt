-- A shelf packed: the steps, and that the promise has one answer.
pub mod Nexts
pub mod Only
