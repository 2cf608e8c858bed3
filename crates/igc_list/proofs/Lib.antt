-- Each way out of `begin`; that the first line and the pages are the whole listing; that the promise has one answer.
pub mod Laws
pub mod Whole
pub mod Only
