pub mod Answers
pub mod InStrands
pub mod Search
pub mod Statements
