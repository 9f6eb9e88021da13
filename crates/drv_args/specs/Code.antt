-- How the code reads its input, step by step. Public contracts don't cite these.
pub mod Building
pub mod Judging
pub mod Lookup
pub mod Replacing
