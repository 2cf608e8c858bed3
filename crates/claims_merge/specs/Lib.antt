-- The words of what is demanded of the merge.
pub mod Evening
