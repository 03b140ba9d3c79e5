pub mod Weights
pub mod Equations
pub mod Conversion
pub mod Line
pub mod inner
