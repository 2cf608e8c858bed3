-- The promises of this crate.
pub mod Tests
