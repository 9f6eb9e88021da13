-- How the code finds switches, step by step. Public contracts don't cite these.
pub mod Indexed
