pub mod Moving
pub mod Only
