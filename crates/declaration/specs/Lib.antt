-- The declaration of a file, and where its head stands.
pub mod Declaration
pub mod Starts
