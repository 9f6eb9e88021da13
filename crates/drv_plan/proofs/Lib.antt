mod Apart
pub mod Ends
mod LastTexts
mod Refusals
mod Reloaded
mod Steps
mod Told
