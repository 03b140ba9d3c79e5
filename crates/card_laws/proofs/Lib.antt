pub mod Printed
pub mod Claims
pub mod Finding
mod Valid
mod Written
mod Any
mod NoOther
mod Later
mod Rewritten
mod Examples
