mod Again
mod Counts
mod Cuts
mod Folders
mod GivenAnswers
mod Joined
mod Left
mod Lines
mod LinkLeading
mod LongNames
mod MacroWords
mod NoChecks
mod Noted
mod OffloadNames
mod OtherNames
mod OtherOptions
mod Parts
mod Prefixes
mod Staying
mod Unasked
pub mod Added
pub mod LevelLaws
pub mod SaidLaw
