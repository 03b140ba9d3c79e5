pub mod Layouts
pub mod Numbers
