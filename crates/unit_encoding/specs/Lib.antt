pub mod Units
pub mod Number
