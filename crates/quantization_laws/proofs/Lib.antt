pub mod Claims
pub mod Printed
pub mod Pattern
pub mod Return
pub mod Nearest
pub mod Distances
pub mod Rising
mod Closest
mod Units
mod Values
