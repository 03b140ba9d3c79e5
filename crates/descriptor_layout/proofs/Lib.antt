pub mod Right
pub mod Answers
