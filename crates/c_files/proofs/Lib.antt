-- Laws of the check's answer in numbers; that it is the same with a table and without; and that each promise has one answer.
mod Laws
pub mod Counting
mod Only
