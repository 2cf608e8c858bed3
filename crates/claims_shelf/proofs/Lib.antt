-- What is claimed of a shelf is one page: proofs/Shelf.antt. The other files show it.
pub mod Words
pub mod Answers
pub mod Tables
pub mod Entries
pub mod Results
pub mod After
pub mod Covers
pub mod Packs
pub mod Promised
pub mod Books
pub mod Unread
pub mod Worked
pub mod Packing
pub mod Shelf
