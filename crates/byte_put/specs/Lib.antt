-- The promises of this crate that the rules do not name.
pub mod Puts
