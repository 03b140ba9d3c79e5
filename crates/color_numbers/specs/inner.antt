pub mod Green
pub mod Spread
pub mod Numbers
pub mod Sizes
