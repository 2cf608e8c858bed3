-- The twelve numbers in a list.
pub mod Slots
