pub mod Pictures
pub mod Answers
