-- The promises of this crate, and a refusal in the line that comes next.
pub mod States
