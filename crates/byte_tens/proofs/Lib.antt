-- What a power of ten is where the decimals are few, how great it is, and that each promise has one answer.
pub mod Laws
pub mod Only
