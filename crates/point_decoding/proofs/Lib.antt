pub mod Own
mod Values
