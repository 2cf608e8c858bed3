-- Files whose lines other than L lines are the same say the same.
pub mod Letters
pub mod Filters
pub mod Alike
