-- A refusal's reason by its number, and what the calls that tell a refusal in words answer.
pub mod Reasons
pub mod Calls
