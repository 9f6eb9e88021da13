pub mod AnswerMaps
pub mod AskedCalls
pub mod Asking
pub mod Consulting
pub mod FirstAnswers
pub mod Holding
mod InOrder
mod Named
pub mod Running
pub mod Scripted
pub mod WholeFiles
