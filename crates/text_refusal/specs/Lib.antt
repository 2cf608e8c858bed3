-- Document 01's table of refusals, and the promises of this crate.
pub mod Table
