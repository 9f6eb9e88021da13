pub mod Forms
pub mod Plans
pub mod Told
