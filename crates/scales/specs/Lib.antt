pub mod Channel
pub mod Scales
pub mod inner
