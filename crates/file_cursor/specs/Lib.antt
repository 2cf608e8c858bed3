-- The promises of this crate, and what its own types say in the paper's terms.
pub mod Steps
