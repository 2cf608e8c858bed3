-- Which layouts are shown; what is put for a line; how a block fills; that each promise has one answer.
pub mod Spelt
pub mod Laws
pub mod Only
