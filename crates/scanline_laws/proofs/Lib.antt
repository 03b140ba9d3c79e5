mod Bits
mod Points
mod Groups
mod Cleared
mod Back
mod Whole
pub mod Accepted
pub mod Looked
mod Examples
pub mod Claims
