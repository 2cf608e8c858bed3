-- What notes and added columns leave of the columns of a whole file, and the laws below it.
pub mod Rows
pub mod Noted
pub mod Widened
pub mod Worked
pub mod Lasting
