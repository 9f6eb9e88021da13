pub mod Code
pub mod Expansion
pub mod Fronts
pub mod Jobs
pub mod Lines
pub mod Options
