-- The definitions in reading order. Classes is for the contracts of the code that compares letters.
pub mod Letters
pub mod Statements
pub mod Classes
