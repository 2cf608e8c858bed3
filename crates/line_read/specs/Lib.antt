-- What an H line says.
pub mod Headers
