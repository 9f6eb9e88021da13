pub mod Code
pub mod Comparing
pub mod Functions
pub mod Outcome
pub mod Versions
