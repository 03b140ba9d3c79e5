pub mod Depths
pub mod Headers
pub mod Lengths
