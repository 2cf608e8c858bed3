-- That each promise has one answer.
mod Only
