mod Agree
mod Means
pub mod Printed
mod Examples
pub mod Claims
