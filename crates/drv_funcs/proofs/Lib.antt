mod Giving
mod Ends
mod Reading
mod Rows
mod Values
