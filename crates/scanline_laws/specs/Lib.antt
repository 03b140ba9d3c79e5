pub mod Cleared
pub mod Claims
