-- The look into entries that are lent as numbers.
pub mod Looks
