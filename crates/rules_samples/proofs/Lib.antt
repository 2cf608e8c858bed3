-- Lines with their values, both ways apart.
pub mod Samples
