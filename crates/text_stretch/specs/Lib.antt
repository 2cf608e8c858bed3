-- The lines of a track, sheet by sheet.
pub mod Sheets
