pub mod Text
pub mod Screen
pub mod Statements
pub mod Writing
