mod Blocks
mod ByName
pub mod Cancelling
mod Lasts
mod LineSearch
mod Parts
mod Rows
mod Tallies
