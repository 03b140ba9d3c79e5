pub mod Claims
pub mod Puts
pub mod Decimal
