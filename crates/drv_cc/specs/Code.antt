-- How the code goes over its input, step by step: what links the code with the definitions. No public contract rests on these.
pub mod Asking
pub mod Building
pub mod Hiding
pub mod Known
pub mod Leading
pub mod Looking
pub mod Parts
pub mod Staying
