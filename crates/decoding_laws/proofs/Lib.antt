mod Values
mod Examples
pub mod Claims
