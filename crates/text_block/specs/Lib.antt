-- The listing behind its first line, as pages.
pub mod Blocks
