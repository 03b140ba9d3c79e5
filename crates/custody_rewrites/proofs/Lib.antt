mod Sums
mod OneRewrite
mod Going
pub mod Fitting
