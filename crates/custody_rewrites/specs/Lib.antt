pub mod Lists
pub mod Rewriting
