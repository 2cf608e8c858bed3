pub mod Characters
pub mod Codes
pub mod Values
pub mod Finer
pub mod Exactly
