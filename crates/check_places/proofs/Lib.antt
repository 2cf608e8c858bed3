pub mod Good
pub mod Held
pub mod Laws
pub mod Only
