pub mod LinePlaces
pub mod Settling
