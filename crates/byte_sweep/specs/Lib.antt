-- What the tests of every byte say.
pub mod Plain
