mod Checked
pub mod Counting
pub mod LastOfAKind
mod Ordered
pub mod ReadBack
pub mod Responding
pub mod Runs
pub mod Shown
pub mod Soundness
pub mod Splitting
