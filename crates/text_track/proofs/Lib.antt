-- The examples, and that a line has room.
pub mod Examples
pub mod Room
