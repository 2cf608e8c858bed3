-- Links of the tests, and that the promise has one answer.
pub mod Links
pub mod Only
