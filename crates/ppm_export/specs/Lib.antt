pub mod Export
pub mod inner
