-- What the check says of a file, in numbers: each way out, and one answer.
mod Laws
pub mod Only
