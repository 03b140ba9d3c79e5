pub mod Table
pub mod Spreads
pub mod Known
