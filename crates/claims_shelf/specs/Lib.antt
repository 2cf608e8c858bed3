-- The words of what is demanded of a shelf: of its bytes, and of the calls since it was empty.
pub mod Weekend
pub mod Calls
