-- The promises of the parts that fields are put with.
pub mod Parts
