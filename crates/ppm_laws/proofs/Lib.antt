mod Exported
mod Imported
mod Returns
pub mod Claims
mod Examples
