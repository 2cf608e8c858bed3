-- The promises of the lines that the listing prints.
pub mod Lines
