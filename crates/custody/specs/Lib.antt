pub mod Lists
pub mod Replay
pub mod Claims
