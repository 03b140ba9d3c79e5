pub mod Quotients
pub mod Scales
