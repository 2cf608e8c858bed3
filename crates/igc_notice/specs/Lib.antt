-- What igc says of a file.
pub mod Notice
