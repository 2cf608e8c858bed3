-- The promises of this crate.
pub mod Within
