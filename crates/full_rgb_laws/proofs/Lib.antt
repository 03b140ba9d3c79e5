mod Narrow
pub mod Claims
