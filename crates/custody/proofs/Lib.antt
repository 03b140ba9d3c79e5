pub mod Whole
pub mod Claims
