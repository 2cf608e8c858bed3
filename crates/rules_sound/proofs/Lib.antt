-- What a layout is that a line tells, and the families one by one.
pub mod Families
pub mod Entries
pub mod Placed
pub mod Columns
pub mod Looked
pub mod Fine
