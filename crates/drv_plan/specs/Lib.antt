pub mod Code
pub mod Denoted
pub mod Languages
pub mod Plans
