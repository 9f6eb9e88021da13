pub mod Code
pub mod Front
pub mod Reading
