-- The exit status.
pub mod Status
