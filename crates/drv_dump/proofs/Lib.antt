pub mod Copies
pub mod Kept
pub mod Naming
pub mod Passing
pub mod Replacing
pub mod Rows
pub mod Steps
pub mod VendorTexts
