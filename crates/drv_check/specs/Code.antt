-- How the code reads what it checks. No public contract rests on these.
pub mod Recovering
