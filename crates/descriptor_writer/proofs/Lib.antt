pub mod Answers
mod Stored
