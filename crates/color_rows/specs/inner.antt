pub mod Green
pub mod Rows
pub mod Sizes
pub mod Known
