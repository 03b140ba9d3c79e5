pub mod Pixels
pub mod Outputs
