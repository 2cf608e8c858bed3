pub mod Easy
pub mod Laws
pub mod Only
pub mod Said
