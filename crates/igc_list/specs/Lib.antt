-- The first line of the listing.
pub mod First
