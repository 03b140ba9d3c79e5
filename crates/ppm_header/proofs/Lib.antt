pub mod Claims
pub mod Texts
pub mod Sizes
mod Numbers
mod Fronts
mod Reading
mod Examples
