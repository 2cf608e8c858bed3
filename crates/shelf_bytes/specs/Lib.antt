-- A number put as four bytes, and bytes moved down.
pub mod Stow
