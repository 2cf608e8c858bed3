-- The words of what is demanded of a summary.
pub mod Overview
