pub mod Scale
pub mod Value
