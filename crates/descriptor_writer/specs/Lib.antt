pub mod Field
pub mod Sample
pub mod Writing
