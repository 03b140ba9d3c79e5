pub mod Answers
pub mod Encodes
