mod Marking
mod Newlines
