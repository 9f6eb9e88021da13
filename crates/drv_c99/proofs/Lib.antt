pub mod ItemLaws
pub mod Rows
pub mod Steps
