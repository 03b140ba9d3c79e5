pub mod History
pub mod Book
pub mod Calls
pub mod Meaning
pub mod Printed
pub mod Claims
