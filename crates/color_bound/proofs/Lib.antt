pub mod Claims
mod Errors
mod Return
mod Scales
mod Lines
