pub mod Code
pub mod Matching
pub mod Order
pub mod Pattern
