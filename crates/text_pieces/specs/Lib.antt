-- What stands in a lent buffer when a text was put into it.
pub mod Buffer
