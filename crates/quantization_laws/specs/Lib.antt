pub mod Claims
pub mod Printed
pub mod Nearest
pub mod Pattern
pub mod Order
