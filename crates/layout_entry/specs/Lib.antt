-- The promises of this crate, and its answers in the paper's terms.
pub mod Parts
