pub mod Bound
pub mod Claims
