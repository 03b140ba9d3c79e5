pub mod Stack
pub mod Finding
