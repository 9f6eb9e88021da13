mod Choices
pub mod Endings
mod Files
pub mod Following
mod LineWords
mod LinesRead
mod OneEnding
mod Refusals
mod Steps
pub mod Tellings
