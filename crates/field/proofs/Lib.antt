mod Bits
mod Masks
pub mod Facts
pub mod Read
pub mod Line
pub mod Claims
mod Examples
