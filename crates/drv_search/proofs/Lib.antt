pub mod Candidates
pub mod Options
