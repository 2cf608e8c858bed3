pub mod States
pub mod Only
