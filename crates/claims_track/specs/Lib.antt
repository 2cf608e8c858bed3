-- The words of what is demanded of a track.
pub mod Mapped
