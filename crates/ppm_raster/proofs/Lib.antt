pub mod Rasters
pub mod Parts
