pub mod Field
pub mod Answer
pub mod Claims
pub mod inner
