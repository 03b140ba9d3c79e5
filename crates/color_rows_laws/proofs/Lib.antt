mod Rows
mod Quotients
mod Lowest
mod Equations
pub mod Claims
pub mod Lines
