pub mod Edition
pub mod Access
