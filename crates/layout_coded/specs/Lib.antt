-- Where a code's column stands.
pub mod Spots
