pub mod Channels
pub mod Cuts
pub mod Groups
pub mod Points
