-- How the code goes over its input, step by step: what links the code with the definitions. No public contract rests on these.
pub mod ByKind
pub mod Counting
pub mod Grouping
pub mod Held
pub mod PlainRuns
pub mod Running
pub mod Standing
pub mod Walking
