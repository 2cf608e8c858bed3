-- A shelf packed.
pub mod Pack
