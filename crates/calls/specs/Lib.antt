pub mod Answers
pub mod Buffers
pub mod Calls
pub mod Motifs
pub mod Batch
pub mod Statements
pub mod BatchStatements
