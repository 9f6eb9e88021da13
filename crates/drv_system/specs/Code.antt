-- How the code works, step by step. Public contracts don't cite these.
pub mod Asked
pub mod Holding
pub mod Output
pub mod Ordered
