-- What holds of a shelf: laws that the functions' proofs and the theorems share.
pub mod Tests
pub mod Ranges
pub mod Bytes
pub mod Sounds
pub mod Places
pub mod Accepts
pub mod Packing
pub mod Mids
