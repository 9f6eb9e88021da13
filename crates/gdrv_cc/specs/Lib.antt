pub mod Endings
pub mod Questions
