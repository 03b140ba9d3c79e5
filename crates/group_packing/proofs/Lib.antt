mod Bytes
mod Small
mod Answers
