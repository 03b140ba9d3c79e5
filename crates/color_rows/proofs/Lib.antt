pub mod Sizes
mod Ranges
mod Differences
