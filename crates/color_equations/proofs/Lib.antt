pub mod Table
pub mod Whole
pub mod Channels
pub mod Points
