-- Whether two slices are through.
pub mod Through
