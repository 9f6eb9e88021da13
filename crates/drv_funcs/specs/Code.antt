-- How the code works, step by step. Public contracts don't cite these.
pub mod Changes
pub mod Reading
pub mod Telling
