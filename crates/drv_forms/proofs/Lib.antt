mod Documents
mod Reading
pub mod Shells
mod Words
