pub mod Compared
mod Pattern
pub mod Floors
pub mod Wholes
mod Products
pub mod Sums
mod Borders
pub mod Codes
