-- The text of a track's record, for people.
pub mod Trail
