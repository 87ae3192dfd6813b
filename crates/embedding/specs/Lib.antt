-- The definitions in reading order. Row is for the laws and for the crates that search, Places for the contracts inside this crate.
pub mod Embedding
pub mod Longest
pub mod Windows
pub mod Examples
pub mod Statements
pub mod Row
pub mod Places
