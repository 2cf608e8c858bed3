pub mod Laws
pub mod Only
pub mod There
pub mod Below
