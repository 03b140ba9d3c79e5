mod Looked
mod Groups
mod Answers
