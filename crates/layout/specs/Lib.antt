-- The promises of the parts that layouts are read with.
pub mod Parts
