pub mod Wider
pub mod Before
