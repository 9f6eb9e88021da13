-- How the code searches, step by step. Public contracts don't cite these.
pub mod Telling
