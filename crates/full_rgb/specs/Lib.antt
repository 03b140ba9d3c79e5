pub mod Full
pub mod inner
