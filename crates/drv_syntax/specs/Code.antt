-- How the code goes over its input, step by step: what links the code with the definitions. No public contract rests on these.
pub mod Ending
pub mod Lists
pub mod Marks
pub mod Messages
pub mod Parts
pub mod Runs
pub mod Tests
pub mod Tokens
pub mod Whole
pub mod Writing
