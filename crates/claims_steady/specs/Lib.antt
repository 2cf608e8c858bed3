-- The words of what added columns leave of the track and of the summary of a file.
pub mod Steady
