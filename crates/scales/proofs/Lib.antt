pub mod Known
pub mod OfLayouts
