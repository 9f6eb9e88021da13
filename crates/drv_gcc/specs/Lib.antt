pub mod Answers
pub mod Fixed
pub mod Halving
pub mod Plans
pub mod Replacing
pub mod SpecFile
