-- No refusal of a check without a table is 15.
pub mod NeverFull
