pub mod Depths
pub mod Known
