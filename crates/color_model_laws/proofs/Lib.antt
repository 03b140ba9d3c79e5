pub mod Claims
mod Inverse
