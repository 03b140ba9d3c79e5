pub mod Sample
pub mod Header
pub mod Reading
