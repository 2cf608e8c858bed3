-- The laws of this crate.
pub mod Laws
pub mod Going
pub mod Only
pub mod Striding
mod Joined
pub mod Digits
