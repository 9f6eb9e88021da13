pub mod Difference
pub mod Fits
pub mod Pieces
pub mod PlanJson
pub mod PlanOfJson
pub mod Script
pub mod Shell
