-- What can be read where no table was lent, and each column of a line that was read, and the laws below it.
pub mod Looked
pub mod Worked
pub mod Readable
