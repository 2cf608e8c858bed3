-- The words of what two files say that are the same but for their notes.
pub mod Notes
