-- The words of what stays of the columns of a whole file.
pub mod Lasting
