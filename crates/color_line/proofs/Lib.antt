pub mod Lines
mod Stores
