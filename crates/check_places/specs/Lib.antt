-- What each place of a line may hold, and the promises of this crate.
pub mod Places
