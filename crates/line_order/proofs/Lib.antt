pub mod Others
pub mod Only
