-- How the code reads its input, step by step. Public contracts don't cite these.
pub mod Building
