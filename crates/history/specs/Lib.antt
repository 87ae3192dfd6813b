pub mod Model
pub mod History
pub mod Examples
pub mod Statements
