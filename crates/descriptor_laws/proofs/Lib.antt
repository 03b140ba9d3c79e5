pub mod Claims
mod Order
mod Samples
mod Written
mod Named
mod Read
mod Examples
