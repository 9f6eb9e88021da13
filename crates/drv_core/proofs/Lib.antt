mod Answered
mod Bounds
mod Claimed
mod Contracts
mod Counting
mod Courses
mod Ending
mod Files
mod Finish
pub mod Fleets
mod Going
mod LinkRuns
mod Listed
pub mod Needs
mod Notes
mod OneJob
mod OneWay
mod Opened
mod Outcomes
mod Possible
mod RemovalRule
mod Reports
mod Rooms
mod Running
pub mod Runs
pub mod Searches
mod Serial
pub mod Shown
mod Sources
pub mod Stages
mod StartedFirst
pub mod Sweeping
mod Tests
mod Waiting
mod Whole
