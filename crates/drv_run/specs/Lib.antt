pub mod Calls
pub mod Code
pub mod Drives
pub mod Executed
pub mod Exits
pub mod LineReads
pub mod Texts
