-- How the code goes over its input, step by step: what links the code with the definitions. No public contract rests on these.
pub mod Compiling
pub mod CutLines
pub mod Naming
pub mod Preparing
pub mod Refusing
pub mod Working
