-- The promises of this crate.
pub mod Basics
