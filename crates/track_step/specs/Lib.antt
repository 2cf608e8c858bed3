-- A step from fix to fix.
pub mod Steps
pub mod Known
