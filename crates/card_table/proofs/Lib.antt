pub mod Least
pub mod Table
