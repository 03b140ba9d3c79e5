pub mod Layouts
pub mod Headers
pub mod Answers
mod Block
