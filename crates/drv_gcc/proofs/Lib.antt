pub mod Forms
pub mod Halves
pub mod Joining
pub mod Naming
