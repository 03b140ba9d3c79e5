pub mod Size
pub mod Limits
pub mod Samples
