-- The table read from the number is the table; laws of words put into a lent text; and that each promise has one answer.
mod Table
mod Laws
mod Only
