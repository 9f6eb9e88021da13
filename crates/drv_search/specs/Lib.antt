pub mod Code
pub mod Search
