-- Notes, and two files merged.
pub mod Notes
pub mod Merging
pub mod Places
